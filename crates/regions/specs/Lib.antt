pub mod Page
pub mod Zone
pub mod Counter
