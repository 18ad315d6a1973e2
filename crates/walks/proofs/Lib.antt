pub mod Lends
pub mod Hand
pub mod Locals
