pub mod Part
pub mod Page
