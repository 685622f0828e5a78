-- Laws about the table of notices, for the proofs here and above. No contract cites these.
pub mod TableLaws
