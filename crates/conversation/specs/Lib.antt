pub mod Talk
pub mod Pending
pub mod Tape
pub mod Whole
