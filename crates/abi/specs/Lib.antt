-- The definitions that the contracts of this crate and of exported functions cite: Interface for the calls of the memory and what all share, Executing for the instructions, Numbers for page ids, fat pointers and gas.
pub mod Interface
pub mod Numbers
pub mod Executing
