-- The table of 01's worked cases.
pub mod Cases
