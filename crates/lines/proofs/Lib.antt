-- Laws about the definitions of specs/, for the proofs here and above. No contract cites these.
pub mod TrimLaws
pub mod PieceLaws
pub mod ChainLaws
pub mod KindLaws
pub mod TokenLaws
pub mod Examples
