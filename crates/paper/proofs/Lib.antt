-- The one fact over document 01's worked lines.
pub mod Worked
