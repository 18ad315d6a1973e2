pub mod Entry
pub mod Unique
pub mod Typed
