pub mod Words
pub mod Turns
pub mod Shared
