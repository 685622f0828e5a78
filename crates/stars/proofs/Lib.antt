-- Laws of star records.
pub mod ApplyLaws
pub mod PairLaws
pub mod LoopLaws
pub mod StarLaws
