-- UTF-8 as RFC 3629 has it: what the functions answer, and the grammar that it is measured by.
pub mod Utf8
pub mod WellFormed
