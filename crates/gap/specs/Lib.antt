-- A hole of so many ticks, written as hidden rests: request E1.
pub mod Values
pub mod Next
pub mod Fill
pub mod Answer
pub mod Exact
