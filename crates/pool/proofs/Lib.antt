-- The laws that the proofs of this crate and of those above it share.
pub mod Pools
pub mod Holds
pub mod Puts
pub mod Gives
