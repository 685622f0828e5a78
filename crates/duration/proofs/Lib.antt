-- Laws about the definitions of specs/, and what this crate proves of them. No contract cites these.
-- laws
pub mod Numbers
pub mod Divisors
pub mod Powers
pub mod Durations
pub mod RatioExits
-- theorems
pub mod Kept
pub mod Lowest
pub mod Lengths
pub mod Reference
pub mod Ratios
pub mod Spelled
pub mod RatioTerms
pub mod Examples
