-- Laws about the items of a token.
pub mod PieceLaws
pub mod RunLaws
pub mod ItemLaws
pub mod NextLaws
