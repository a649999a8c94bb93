pub mod Rows
pub mod DemoTables
pub mod Messages
pub mod Lengths
pub mod PlanDigests
