pub mod Frames
pub mod Session
