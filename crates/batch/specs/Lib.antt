pub mod Turn
pub mod Batch
pub mod History
pub mod BatchLaws
pub mod laws
pub mod Stops
pub mod Applies
