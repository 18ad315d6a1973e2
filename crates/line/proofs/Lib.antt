pub mod Deaf
pub mod Edges
pub mod Takes
pub mod Unique
