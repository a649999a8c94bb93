-- what public contracts say
pub mod TableText
pub mod Tables
-- what rules keep, and what the steps inside say: for proofs alone
pub mod Pieces
pub mod KeptRules
