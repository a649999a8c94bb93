pub mod Amounts
pub mod Banks
pub mod RunFile
pub mod CanonicalPlan
pub mod PlanOf
pub mod DemoPlan
