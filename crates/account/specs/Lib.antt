-- What the text says of its notes, from document 01's section of that name alone; and the statements that the reading meets it.
pub mod Rows
pub mod Account
pub mod Agree
pub mod Reached
