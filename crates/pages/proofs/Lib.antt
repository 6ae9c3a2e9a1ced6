-- The laws that the proofs of this crate and of those above it share.

pub mod Free
pub mod Taking
pub mod Views
pub mod Listing
