pub mod Wellformed
pub mod Beside
