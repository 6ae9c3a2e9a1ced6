-- The definitions that the contracts of this crate cite.
pub mod Arithmetic
pub mod Decode
