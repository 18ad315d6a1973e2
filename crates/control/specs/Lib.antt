pub mod Phase
pub mod Control
pub mod Bits
pub mod Said
pub mod Exchange
