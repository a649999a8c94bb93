pub mod Cuts
pub mod Stored
pub mod Front
pub mod Parts
pub mod Lawful
pub mod PaddedRows
pub mod Swaps
pub mod Readings
