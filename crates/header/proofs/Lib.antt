-- Laws for the proofs here. No contract cites these.
pub mod ColumnLaws
pub mod FreshLaws
pub mod NoticeLaws
pub mod HeaderLaws
