-- Answers: what the structs mean that functions return. Known: what the fast paths of loads, stores and their writes do.
-- Numbered: which kinds and numbers an instruction returns.

pub mod Answers
pub mod Known
pub mod Numbered
