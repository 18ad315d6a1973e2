pub mod Step
pub mod Line
pub mod Turns
pub mod Board
pub mod Teeth
pub mod Every
