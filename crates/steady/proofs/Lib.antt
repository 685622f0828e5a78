-- The row stays short, and its parts are among the state's, line after line.
pub mod RowLaws
pub mod KeepLaws
pub mod LineLaws
