-- What is known between two lines: how cells, parts and counts say a state, and where records land in a buffer.
pub mod Lay
pub mod View
pub mod Ready
pub mod Counts
