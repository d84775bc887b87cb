pub mod Reasons
pub mod Why
pub mod Exactly
pub mod Ahead
pub mod laws
