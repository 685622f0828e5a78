-- Reference records: white space, trimming, and what a record says.
pub mod Trim
pub mod Reference
