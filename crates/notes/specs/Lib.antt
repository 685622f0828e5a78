-- The beam of a voice in its part; a token of a kern line and what it comes to.
pub mod Beam
pub mod Spot
pub mod Plain
