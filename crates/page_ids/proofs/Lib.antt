-- The laws that the proofs of this crate and of those above it share.
pub mod Arms
pub mod Known
