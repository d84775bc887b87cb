pub mod Listed
pub mod Start
