-- what public contracts say
pub mod Averages
pub mod Following
pub mod LawfulReport
pub mod LineReading
pub mod ReadReport
-- what averages keep, and what the steps inside say: for proofs alone
pub mod Tallies
