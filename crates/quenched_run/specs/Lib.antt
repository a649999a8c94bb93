-- what public contracts say
pub mod Quenches
-- what the steps inside say: for proofs alone
pub mod Steps
