-- The header's columns, one by one.
pub mod Columns
