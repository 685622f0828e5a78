-- The reader's answer, and a text's records laid in a buffer line by line.
pub mod Landing
pub mod Measured
pub mod Told
pub mod Answer
