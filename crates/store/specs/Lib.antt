-- The definitions that the contracts of this crate cite.
pub mod Mem
pub mod Keys
pub mod Indexed
pub mod Pool
pub mod Find
