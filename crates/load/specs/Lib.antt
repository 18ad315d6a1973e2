pub mod Span
pub mod Load
pub mod Choice
