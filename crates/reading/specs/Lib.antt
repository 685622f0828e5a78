-- The reading of a text, as document 01 has it: from the text's bytes to a refusal, or to the records of its sheet.
pub mod State
pub mod Notices
pub mod Header
pub mod Star
pub mod Bars
pub mod Notes
pub mod Records
pub mod Text
pub mod Computed
