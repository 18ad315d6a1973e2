pub mod WordAddress
