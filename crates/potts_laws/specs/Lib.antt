pub mod Changes
pub mod Weights
pub mod Equilibrium
pub mod Laws
