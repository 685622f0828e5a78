-- Records written at a place of a buffer, and notices that are kept.
pub mod Kept
