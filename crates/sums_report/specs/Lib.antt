pub mod HeldSums
