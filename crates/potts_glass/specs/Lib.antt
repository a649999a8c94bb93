-- what public contracts say
pub mod Potts
pub mod PackedColours
pub mod PottsStates
pub mod PottsText
-- sites side by side: for the functions of the sweep
pub mod SitesBeside
-- what a glass keeps: for proofs alone
pub mod Kept
