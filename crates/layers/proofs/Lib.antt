pub mod KeptLists
pub mod Layering
