pub mod Banks
pub mod Samples
pub mod Shown
