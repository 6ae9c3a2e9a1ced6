-- The laws that the proofs of this crate and of those above it share.

pub mod Asks
pub mod Grown
pub mod Taking
pub mod Ranges
pub mod Turns
