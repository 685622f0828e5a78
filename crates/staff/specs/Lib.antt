-- The row before a record as the code comes to it, and the lines that fill the staff of a text that is refused with 8.
pub mod Row
pub mod Filling
