-- Laws about the definitions of specs/, for the proofs here and above. No contract cites these.
pub mod Examples
pub mod WhiteLaws
pub mod CharacterLaws
pub mod TrimLaws
pub mod LoopLaws
pub mod EndLaws
pub mod SpanLaws
pub mod KeyLaws
pub mod ReferenceLaws
