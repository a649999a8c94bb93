mod Kept
mod Listed
mod Times
mod Slots
mod SameTexts
pub mod KnownValues
