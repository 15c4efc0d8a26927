pub mod Keeping
pub mod Kept
pub mod Layers
