pub mod Checks
pub mod Unique
