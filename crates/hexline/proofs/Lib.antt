pub mod Back
pub mod Unique
