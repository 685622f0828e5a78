-- Barline records and the end of a text, as the code reads them.
pub mod Bars
