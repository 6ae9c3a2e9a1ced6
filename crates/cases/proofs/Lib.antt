-- Every row of the table holds.
pub mod Cases
