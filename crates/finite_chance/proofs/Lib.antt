pub mod Sums
pub mod Steps
pub mod Chains
pub mod Counts
pub mod KnownValues
