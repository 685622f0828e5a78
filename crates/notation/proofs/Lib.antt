-- Laws about the definitions of specs/, for the proofs here and above. No contract cites these.
pub mod ByteLaws
pub mod Examples
