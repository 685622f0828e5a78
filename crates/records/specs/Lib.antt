-- What holds where a line is read.
pub mod Here
