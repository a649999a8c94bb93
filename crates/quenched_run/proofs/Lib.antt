mod StillBanks
mod FittingBanks
pub mod GoneStates
