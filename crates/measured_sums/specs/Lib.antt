-- what is measured, and its sums
pub mod OverlapField
pub mod PlaneFamilies
pub mod PlaneCorrelations
pub mod EpochBins
pub mod MeasuredSums
pub mod RunningSums
pub mod SumsText
-- laws over these
pub mod Laws
pub mod Bounds
