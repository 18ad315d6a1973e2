pub mod Placing
pub mod Layout
