-- What a reading of a token meets, one item after the other.
pub mod Items
