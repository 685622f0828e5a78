-- Laws about the definitions of specs/, for the proofs here and above. No contract cites these.
pub mod MaskLaws
pub mod GiveLaws
pub mod StepLaws
pub mod Examples
