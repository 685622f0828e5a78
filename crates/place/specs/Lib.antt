-- What is known of a line of a text.
pub mod Taken
