pub mod Progress
pub mod Sums
pub mod AtomicSteps
pub mod LockRule
pub mod Seats
pub mod Laws
