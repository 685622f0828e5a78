-- The columns of a data record, one by one and in stretches.
pub mod Column
pub mod Agreed
pub mod Stretch
