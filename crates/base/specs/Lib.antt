pub mod Fold
pub mod Every
pub mod Least
pub mod Store
pub mod Bit
pub mod Word
