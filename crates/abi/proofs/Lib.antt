-- The laws that the proofs of this crate and of exported functions share.
pub mod Outputs
pub mod Statuses
pub mod Lists
pub mod Executing
