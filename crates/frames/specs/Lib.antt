-- The definitions that the contracts of this crate and of exported functions cite: Frames for flags, areas, frames and words as numbers.
pub mod Frames
