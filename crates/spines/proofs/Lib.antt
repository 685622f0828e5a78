-- Laws about the definitions of specs/, for the proofs here and above. No contract cites these.
pub mod CellLaws
pub mod TableLaws
pub mod WalkLaws
pub mod RecordLaws
pub mod RunLaws
