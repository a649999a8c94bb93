-- what public contracts say
pub mod CouplingWords
pub mod BondsAsWords
pub mod CouplingsFile
-- what couplings keep, and where their words lie: for proofs alone
pub mod KeptWords
pub mod Kept
