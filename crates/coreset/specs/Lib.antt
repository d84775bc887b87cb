pub mod Set
pub mod Counting
pub mod laws
