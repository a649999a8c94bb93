pub mod Observables
pub mod QuenchedObservables
