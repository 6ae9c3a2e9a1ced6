-- The laws that the proofs of this crate and of those above it share.
pub mod Bytes
pub mod Digits
pub mod Written
pub mod Limbs
pub mod RoundTrip
pub mod Copied
