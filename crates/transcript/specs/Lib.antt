pub mod Digit
pub mod Frame
