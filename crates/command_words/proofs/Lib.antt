pub mod Numbers
pub mod AgeTimes
pub mod SaidWords
pub mod SaidOnce
pub mod SaidOptions
pub mod SaidItems
pub mod SaidRuns
pub mod SaidCommands
