-- The definitions that the contracts of this crate cite: Verdict for the call, Covers for the two steps that it is made of.
pub mod Verdict
pub mod Covers
