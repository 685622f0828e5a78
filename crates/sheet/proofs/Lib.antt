-- Laws about the definitions of specs/: lengths, and that the player reads back what was written. No contract cites these.
pub mod BytesLaws
pub mod HeadLaws
pub mod NoteLaws
pub mod BarLaws
pub mod PartLaws
pub mod EndLaws
pub mod NoticeLaws
pub mod RecordLaws
pub mod SheetLaws
pub mod Examples
