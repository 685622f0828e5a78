-- The table of notices, and their numbers.
pub mod Number
pub mod Table
