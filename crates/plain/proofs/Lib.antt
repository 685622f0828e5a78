-- Tokens of the usual shape: the laws.
pub mod PieceLaws
pub mod ByteLaws
pub mod ItemLaws
pub mod AspectLaws
pub mod BodyLaws
pub mod TokenLaws
pub mod LineLaws
