-- The laws that the proofs of `abi` cite.
pub mod Lists
