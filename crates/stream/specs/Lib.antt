pub mod Came
pub mod Front
