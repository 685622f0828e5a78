-- Laws of one line of a text.
pub mod RepairLaws
pub mod OutcomeLaws
pub mod KindLaws
pub mod RecordLaws
