-- Laws about the definitions of specs/, for the proofs here and above. No contract cites these.
pub mod EachLaws
pub mod RepairLaws
pub mod Examples
pub mod WidthLaws
