-- The laws that the proofs of this crate share.
pub mod Lists
pub mod NoteSets
pub mod Kept
pub mod Shown
pub mod Cuts
pub mod Places
pub mod Notes
pub mod Undos
pub mod Aligned
