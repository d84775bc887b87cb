pub mod AndThen
pub mod BatchCases
pub mod RunKeeps
pub mod Ran
pub mod Turn
pub mod History
