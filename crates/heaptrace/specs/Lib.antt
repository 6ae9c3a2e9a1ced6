-- The definitions that the contracts of this crate cite: what an answered line does.
pub mod Puts
pub mod Answers
