-- The claim about lists of calls, and what it speaks of.
pub mod Plain
pub mod Claim
