-- Laws of what is written.
pub mod WriteLaws
pub mod KeptLaws
