pub mod Verdict
pub mod Refusal
pub mod Checks
