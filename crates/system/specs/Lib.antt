pub mod System
pub mod Stop
pub mod WellFormed
pub mod Events
pub mod Questions
pub mod Parts
pub mod OneStep
pub mod laws
