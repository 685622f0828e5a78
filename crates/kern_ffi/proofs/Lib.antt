-- Laws of the reader's answer.
pub mod AnswerLaws
pub mod LineLaws
