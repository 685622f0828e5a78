-- Laws about the definitions of specs/, for the proofs here and above. No contract cites these.
pub mod Letters
pub mod PitchLaws
pub mod SignLaws
pub mod Agreement
pub mod Examples
