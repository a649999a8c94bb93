-- what public contracts say
pub mod Overlaps
pub mod LineText
-- what the steps inside say: for proofs alone
pub mod Counted
pub mod Turned
pub mod CountedText
