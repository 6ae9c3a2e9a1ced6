-- Copies: bytes that were copied to a local array. Pieces: a word in one piece.

pub mod Copies
pub mod Pieces
