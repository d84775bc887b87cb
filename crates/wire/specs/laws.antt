pub mod Reader
pub mod Readers
pub mod Refusal
pub mod Part
