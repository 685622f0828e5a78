-- A refusal as three numbers.
pub mod Numbers
