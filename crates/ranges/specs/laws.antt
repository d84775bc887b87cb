pub mod Logic
pub mod Pass
pub mod Places
pub mod Range
