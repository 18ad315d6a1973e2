pub mod Marked
pub mod Loads
