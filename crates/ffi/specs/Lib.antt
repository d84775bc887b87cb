-- What the calls for C and Rust come to.
pub mod Calls
pub mod Outcomes
pub mod OneApplied
