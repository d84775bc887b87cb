-- Laws, and sets of laws, that the proofs of loops go by.
pub mod Turns
pub mod Past
