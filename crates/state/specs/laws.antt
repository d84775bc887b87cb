pub mod Rules
pub mod Threads
pub mod Owed
