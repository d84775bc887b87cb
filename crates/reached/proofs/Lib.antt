-- The theorems that rest on what is read off a history: its releases, its sums, and its answers.
pub mod Tallies
pub mod Releases
pub mod ServedExactly
pub mod Sums
pub mod Allowed
pub mod ByAnswers
pub mod FromBytes
