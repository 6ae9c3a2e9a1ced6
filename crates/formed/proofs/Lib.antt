-- The laws that the proofs of this crate and of those above it share.

pub mod Bools
pub mod Sizes
pub mod Pages
pub mod Keys
pub mod Slots
pub mod Noted
pub mod Numbers
pub mod Facts
pub mod PoolWords
pub mod Stages
pub mod Meaning
pub mod Sense
pub mod Examples
pub mod Same
pub mod Above
pub mod Asks
pub mod Hints
pub mod Each
