-- what public contracts say
pub mod Runs
pub mod Text
-- what a slot, a bank and a run keep, and what the steps inside say: for proofs alone
pub mod Banks
pub mod Cells
pub mod Ends
pub mod Keeps
pub mod KeptRuns
pub mod Opens
