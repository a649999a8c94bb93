pub mod ReadyRules
pub mod RowOrder
pub mod SiteBits
pub mod TurnedCounts
