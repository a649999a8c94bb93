pub mod Cases
pub mod Votes
pub mod SixVotes
pub mod Colours
pub mod Sites
pub mod NeighbourPlaces
pub mod Sweeps
pub mod Samples
mod KnownValues
