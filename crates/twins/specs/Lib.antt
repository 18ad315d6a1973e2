pub mod ArrayTurns
pub mod Twins
pub mod Board
