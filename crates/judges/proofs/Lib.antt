pub mod Defaults
pub mod Firsts
pub mod Judging
pub mod Lowering
pub mod Readings
pub mod Seeing
