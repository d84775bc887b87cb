pub mod Number
pub mod Put
pub mod Shown
