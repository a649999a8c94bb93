pub mod ReportRows
pub mod ReportSpins
pub mod LawfulReports
pub mod UnevenReports
pub mod RunReports
pub mod BankReports
pub mod AcceptedParts
pub mod CheckpointLengths
pub mod NextRuns
mod Packing
mod Measures
mod Seals
mod RunsOfBanks
mod StopsOfRuns
mod SampleBanks
