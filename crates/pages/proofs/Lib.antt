pub mod Accepted
pub mod Unique
pub mod Exactly
pub mod Registers
