-- The row of spines as cells, the table of active spines, and a record's path tokens.
pub mod Cells
pub mod Table
pub mod Tokens
pub mod Emit
pub mod Runs
