pub mod Part
pub mod Address
