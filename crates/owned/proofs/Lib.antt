-- Answers: what the structs and statuses tell. Words: a word in one piece, and what its read and its write do.
-- Known: instructions that a hint carries out.

pub mod Answers
pub mod Words
pub mod Known
