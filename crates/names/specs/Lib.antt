-- The names shown for the parts.
pub mod Names
