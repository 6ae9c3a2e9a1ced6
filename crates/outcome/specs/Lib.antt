-- The definitions that the contracts of every crate cite.
pub mod Outcome
-- What the laws of `NeverZero` cite.
pub mod Nonzero
