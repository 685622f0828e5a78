-- Document 01's worked lines.
pub mod Table
