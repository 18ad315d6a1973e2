pub mod Decode
pub mod Hearing
pub mod Kind
