-- Laws of one pass over a token.
pub mod FoldLaws
pub mod LengthLaws
pub mod FirstLaws
pub mod SoundLaws
pub mod MarkLaws
pub mod ScanLaws
pub mod UnknownLaws
mod MaskLaws
pub mod NumberLaws
