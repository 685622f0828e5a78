-- The length that a token without one takes from its record.
pub mod Peers
pub mod Found
