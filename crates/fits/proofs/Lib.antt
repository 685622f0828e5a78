-- Proofs.
pub mod Each
pub mod Items
pub mod Outcomes
pub mod Cuts
pub mod Rows
pub mod Good
pub mod Headers
pub mod Stars
pub mod Bars
pub mod Notes
pub mod Lines
pub mod Whole
