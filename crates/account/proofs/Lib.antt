-- The reading held to what the text says.
pub mod ResultLaws
pub mod DataLaws
pub mod RowLaws
pub mod RecordLaws
pub mod LineLaws
pub mod Accepted
pub mod PlaceLaws
pub mod RefusalLaws
pub mod Question
pub mod Distinct
pub mod JoinLaws
pub mod Examples
