pub mod Pick
pub mod laws
