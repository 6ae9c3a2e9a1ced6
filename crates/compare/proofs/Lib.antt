-- The laws that the proofs of this crate share.

pub mod Halves
pub mod Meaning
pub mod Walk
pub mod Bytes
pub mod Answers
