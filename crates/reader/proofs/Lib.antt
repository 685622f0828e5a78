-- Laws of the reading with its buffer.
pub mod LandingLaws
pub mod AnswerLaws
pub mod LoopLaws
pub mod FinishLaws
