-- The laws that the proofs of this crate and of those above it share.

pub mod Logic
pub mod All
pub mod Counts
pub mod Orders
pub mod Places
pub mod Inserts
pub mod Meaning
pub mod Removes
