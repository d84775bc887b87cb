pub mod Joined
pub mod Some
pub mod Words
