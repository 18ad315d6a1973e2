pub mod Asking
pub mod Page
pub mod Trace
pub mod Status
