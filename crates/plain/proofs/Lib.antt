-- The claim about every list of calls, and the laws that it rests on.
pub mod Tests
pub mod Held
pub mod Others
pub mod Undone
pub mod Seen
pub mod Good
pub mod Since
pub mod Theorem
