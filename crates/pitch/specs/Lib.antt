-- Pitches and accidentals: as document 01 has them, and as the **kern reference has them.
pub mod Pitch
pub mod Reference
