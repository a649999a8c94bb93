pub mod Deciding
pub mod Trading
