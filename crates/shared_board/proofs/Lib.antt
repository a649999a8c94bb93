pub mod Words
pub mod Stores
pub mod HandOuts
pub mod HandBacks
pub mod PairTurns
