-- Tokens of the usual shape.
pub mod Plain
pub mod Usual
