pub mod Address
pub mod Partner
pub mod Placed
pub mod Stopping
pub mod Unique
