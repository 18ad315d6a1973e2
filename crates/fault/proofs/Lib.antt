pub mod Digits
pub mod Unique
pub mod Laws
