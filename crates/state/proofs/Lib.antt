-- Laws of parts, places and outcomes.
pub mod LayLaws
pub mod PartLaws
pub mod ViewLaws
pub mod CountLaws
