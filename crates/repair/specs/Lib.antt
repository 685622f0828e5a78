-- A record repaired to the row's width, and what questions 6 and 7 say of it.
pub mod Repair
pub mod Record
