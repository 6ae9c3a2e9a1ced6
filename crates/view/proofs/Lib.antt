-- Laws of views that the crates of the calls share.
pub mod Equal
pub mod Missing
pub mod Compose
pub mod Counting
pub mod Counts
pub mod Dropping
pub mod Reading
pub mod Order
pub mod Hints
pub mod Refused
pub mod Lookup
pub mod Operands
