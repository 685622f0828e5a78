-- A text as lines and tokens, and what a line or a token is.
pub mod Lines
pub mod Tokens
