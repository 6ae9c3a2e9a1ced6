-- The laws that the proofs of this crate and of those above it share.
pub mod Copies
pub mod WordBytes
pub mod Overs
pub mod Kept
pub mod Pieces
pub mod Puts
pub mod Words
pub mod Walks
