-- How a token is scanned.
pub mod Steps
