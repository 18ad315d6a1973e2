pub mod Openings
pub mod Digits
pub mod Unique
pub mod Laws
pub mod Edges
