-- Lists of bytes: cut at a byte, compared, stored at the start of a buffer; and tests that are computed over a finite range.
pub mod Ascii
pub mod Split
pub mod Compare
pub mod Store
pub mod Finite
