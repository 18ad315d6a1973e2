mod Asked
mod Resting
pub mod Typed
pub mod Entering
pub mod Seen
pub mod Alone
mod Stepping
mod Event
mod Bystander
mod During
mod Others
mod Grammar
pub mod Allowed
mod Turn
pub mod OneTurn
mod Lists
pub mod Renamed
pub mod Remembering
mod Same
pub mod Turns
pub mod Acknowledged
pub mod Undisturbed
pub mod Ran
pub mod Setup
pub mod Loaded
pub mod Computing
pub mod Examples
pub mod Accepted
mod OneCounter
pub mod Teeth
