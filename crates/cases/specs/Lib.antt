pub mod Pairs
pub mod Readings
