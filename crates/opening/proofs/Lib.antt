-- The laws that the proofs of this crate cite.
pub mod Fixed
pub mod Starts
pub mod Refusals
pub mod Calldata
