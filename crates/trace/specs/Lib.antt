-- The definitions that the contracts of this crate cite: Language for reading a line, Text for writing an answer, Reading for private functions.
pub mod Language
pub mod Reading
