-- what public contracts say
pub mod Counted
pub mod Tallies
-- what the steps inside say: for proofs alone
pub mod RowBonds
pub mod CountedRows
pub mod CountedTurns
