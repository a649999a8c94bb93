pub mod Places
pub mod KeptPlaces
pub mod KeptPlanes
pub mod FileBytes
pub mod BondsAsWords
pub mod FileLaws
pub mod FileGrown
