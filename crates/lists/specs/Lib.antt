pub mod Bounded
pub mod laws
