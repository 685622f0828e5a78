-- Laws about the lists of a token.
pub mod FillLaws
pub mod ItemLaws
pub mod CountLaws
pub mod ByteLaws
pub mod UnknownLaws
