-- Laws about the definitions of specs/, for the proofs here and above. No contract cites these.
pub mod TableLaws
pub mod RowLaws
pub mod LengthLaws
pub mod PointLaws
pub mod BlockLaws
pub mod Longest
pub mod Examples
