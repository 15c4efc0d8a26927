pub mod Gathered
pub mod Insides
pub mod Making
pub mod Matching
