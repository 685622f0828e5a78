-- The lists of a token as the sheet's bytes.
pub mod Lists
