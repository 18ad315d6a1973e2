pub mod Digit
pub mod Fields
pub mod Checks
pub mod Writing
