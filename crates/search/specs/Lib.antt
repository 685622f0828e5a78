-- What a search by blocks of bytes keeps.
pub mod Blocks
