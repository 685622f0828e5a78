-- Laws of the searches, of the rests, and that they add up to the hole.
pub mod SearchLaws
pub mod ValueLaws
pub mod ServeLaws
pub mod LongaLaws
pub mod PlainLaws
pub mod FillLaws
pub mod AnswerLaws
pub mod Examples
