-- What a tandem interpretation says: the rule of the source's `apply_interpretation`, a file for each kind.
pub mod Digits
pub mod Number
pub mod Words
pub mod Unsupported
pub mod Clef
pub mod Key
pub mod Meter
pub mod Tempo
pub mod Interpretation
