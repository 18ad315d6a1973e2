pub mod Agree
pub mod Data
pub mod Same
pub mod Edges
