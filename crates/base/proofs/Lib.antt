pub mod Fold
pub mod Every
pub mod Store
pub mod Cut
pub mod Table
pub mod Unique
pub mod Call
