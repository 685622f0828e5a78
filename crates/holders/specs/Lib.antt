-- Which lines of a part fill its staff: by the backward trace, and as one pass over a record's tokens for its lines and one for its branches.
pub mod Voice
pub mod Holders
pub mod Walk
