-- Laws of a token's notices and its NOTE.
pub mod BeamLaws
pub mod ReportLaws
pub mod NoticeLaws
pub mod TokenLaws
pub mod PlainLaws
