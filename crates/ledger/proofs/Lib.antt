-- Laws that rest on what a skipped release is defined to be.
pub mod Skips
