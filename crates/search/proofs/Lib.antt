-- Laws of the searches and the counts by blocks.
pub mod BlockLaws
