pub mod Added
pub mod Adding
pub mod Cuts
pub mod Declining
pub mod Kept
