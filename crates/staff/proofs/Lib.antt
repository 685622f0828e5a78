-- The lines before a record once more, and that what fills the staff there is what the backward trace gives.
pub mod WalkLaws
pub mod FillingLaws
