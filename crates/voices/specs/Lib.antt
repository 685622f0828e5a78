-- Voices for the branches of a row, and what a star record makes of the row.
pub mod Mask
pub mod Outcome
