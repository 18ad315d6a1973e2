pub mod Plain
pub mod Chips
pub mod Dropped
pub mod Ending
pub mod Role
