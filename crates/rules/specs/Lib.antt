pub mod Clauses
pub mod Declines
pub mod Intervals
pub mod Kinds
pub mod Limits
pub mod Rules
