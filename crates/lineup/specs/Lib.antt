pub mod Chips
pub mod Wellformed
