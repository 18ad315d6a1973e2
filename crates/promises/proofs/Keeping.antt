-- What every event keeps of one chip, and of two chips side by side.
pub mod Fits
pub mod Good
mod Taking
mod Sending
mod Stopping
mod Shares
mod Closed
pub mod Wellformed
pub mod Lengths
pub mod Readonly
pub mod Registers
pub mod Beside
pub mod Heeding
pub mod Loads
pub mod Values
pub mod Bytes
pub mod Typed
