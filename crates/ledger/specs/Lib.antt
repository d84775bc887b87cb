pub mod Releases
pub mod Lent
pub mod OneLedger
pub mod WellFormed
pub mod laws
pub mod Sized
