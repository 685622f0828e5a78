-- The value that a reciprocal writes, the length of a note, and the reference's own account of both.
pub mod Duration
pub mod Length
pub mod Reciprocal
pub mod Ratio
