pub mod Counts
pub mod laws
