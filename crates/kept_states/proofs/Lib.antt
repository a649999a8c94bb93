pub mod Levels
pub mod LevelClauses
pub mod Refusals
pub mod ReadingSteps
pub mod KeptClauses
pub mod Written
