-- Beams and barlines, and the searches that they are read by.
pub mod Bytes
pub mod Beam
pub mod Barline
