-- The sheet in the buffer plays what the text says; the reading refuses by its own questions alone.
pub mod PlayedLaws
pub mod NumberLaws
