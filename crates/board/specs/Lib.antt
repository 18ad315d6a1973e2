pub mod Place
pub mod Board
pub mod Shares
pub mod Stores
