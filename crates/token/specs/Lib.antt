-- What a note token says.
pub mod Token
pub mod Scan
pub mod Outcome
pub mod Account
pub mod Reference
