-- The definitions that the contracts of this crate and of those above it cite.
pub mod Pages
pub mod Buffers
pub mod Parts
pub mod WellFormed
pub mod Formed
