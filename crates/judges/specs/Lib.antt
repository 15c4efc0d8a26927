pub mod Matches
pub mod Meanings
pub mod Notes
pub mod Scans
pub mod Views
