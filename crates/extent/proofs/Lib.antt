-- An accepted text has few parts and notes, and its sheet is shorter than 2^32 bytes.
pub mod LineLaws
pub mod StateLaws
pub mod HeaderLaws
pub mod BarLaws
pub mod StarLaws
pub mod NoteLaws
pub mod RecordLaws
pub mod TextLaws
