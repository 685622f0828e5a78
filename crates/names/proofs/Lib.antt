-- The names that the first and the last part fall back to. No contract cites these.
pub mod NameLaws
