-- The laws that the proofs of this crate and of those above it share.

pub mod Tables
pub mod Ranges
pub mod Journals
pub mod Numbers
pub mod Passed
pub mod Chosen
pub mod One
