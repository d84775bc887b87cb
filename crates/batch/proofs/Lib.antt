-- The theorems of a batch that rest on what a turn answers, and laws that the proofs of this crate's functions cite.
pub mod Ran
pub mod Bounds
pub mod Applies
pub mod Two
pub mod BatchLaws
pub mod TwoBatches
pub mod Lent
pub mod Sofar
pub mod OneTurn
