pub mod Adding
pub mod Views
pub mod Keeping
pub mod Marking
pub mod Parting
pub mod Seating
pub mod Ending
pub mod Wording
