-- Laws on the state; worked texts.
pub mod StateLaws
pub mod Texts
pub mod Examples
