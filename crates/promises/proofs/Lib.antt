pub mod Keeping
mod Filled
pub mod Chips
pub mod Formed
pub mod Steps
pub mod Kept
pub mod Setup
pub mod Refused
pub mod Exactly
pub mod CycleOver
pub mod Playing
pub mod Runs
mod Sent
pub mod Replies
pub mod Occupied
pub mod Odd
pub mod Older
pub mod Bytes
pub mod Answers
pub mod Calls
pub mod Versions
pub mod Edges
pub mod Identity
