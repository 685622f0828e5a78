-- What holds of the buffer's bytes after an acceptance.
pub mod Played
