-- The laws that the proofs of this crate share.
pub mod Spaces
pub mod Figures
pub mod Shifts
pub mod Lines
pub mod Long
pub mod RoundTrip
