-- what public contracts say
pub mod Aging
pub mod Laws
-- what the spins that are kept hold, and what the steps inside say: for proofs alone
pub mod Keeping
pub mod Measuring
