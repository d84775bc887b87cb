pub mod Bounded
pub mod Lists
