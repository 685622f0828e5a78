-- The columns of a star record, and its answer, as the code takes them apart.
pub mod Columns
pub mod Next
