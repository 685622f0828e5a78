-- What a tandem interpretation sets, as the code takes it apart.
pub mod Change
