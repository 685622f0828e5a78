-- Laws about the definitions of specs/, for the proofs here and above. No contract cites these.
pub mod TestLaws
pub mod SplitLaws
pub mod TotalLaws
pub mod SearchLaws
pub mod PieceLaws
pub mod CompareLaws
pub mod StoreLaws
