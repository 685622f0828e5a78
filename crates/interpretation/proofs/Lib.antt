-- Laws about the definitions of specs/, for the proofs here and above. No contract cites these.
pub mod Exits
pub mod DigitLaws
pub mod WordLaws
pub mod KeyLaws
pub mod Signatures
pub mod MeterLaws
pub mod TempoLaws
pub mod MarkLaws
pub mod Ranges
pub mod Examples
