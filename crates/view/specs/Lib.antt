-- The definitions that the contracts of the calls cite: what calls see, what each does, which refusal it gets, and the contract.
-- Inner is for the steps that the calls are made of.
pub mod View
pub mod Steps
pub mod Checks
pub mod Does
pub mod Instructions
pub mod Calls
pub mod Inner
