pub mod Threads
pub mod Allowance
pub mod Rules
pub mod laws
pub mod HasThread
