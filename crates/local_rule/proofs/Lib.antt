pub mod Cases
pub mod Counts
pub mod Lanes
mod Limits
pub mod RowOrder
mod WorkedRules
