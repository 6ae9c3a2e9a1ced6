-- Meets, Copies, Linked, Owned and Contracts: what the contracts say of a step.
-- Next: lists begin and go on. Inhabited, Frees, Comparing and Instructions: every call has a step.
-- Theorem: the demand, with no hypothesis left.
-- Charged: a quote is what its loads pay, and growth adds up. Leaving and Worked: loads and stores that are carried out have steps.

pub mod Compares
pub mod Meets
pub mod Copies
pub mod Linked
pub mod Owned
pub mod Contracts
pub mod Inserts
pub mod Reach
pub mod Writing
pub mod Picks
pub mod Thins
pub mod Inhabited
pub mod Frees
pub mod Comparing
pub mod Instructions
pub mod Next
pub mod Padding
pub mod Rules
pub mod Theorem
pub mod Leaving
pub mod Worked
pub mod Charged
