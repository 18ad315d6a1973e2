pub mod Share
pub mod Reading
pub mod Storing
pub mod Load
pub mod Rows
pub mod Save
