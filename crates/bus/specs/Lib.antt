pub mod Setup
pub mod Step
pub mod Run
