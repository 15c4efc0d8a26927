pub mod Adding
pub mod Edits
pub mod Tables
