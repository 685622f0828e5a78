-- Laws of closings.
pub mod LoopLaws
pub mod DecidingLaws
pub mod CloseLaws
pub mod EndLaws
