-- The passes over a record, and that they give what the backward trace says.
pub mod PassLaws
pub mod TableLaws
pub mod CarryLaws
pub mod ForkLaws
pub mod FiveLaws
pub mod AgreeLaws
pub mod OverLaws
pub mod BranchLaws
