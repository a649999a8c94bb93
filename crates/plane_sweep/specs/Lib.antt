-- what public contracts say
pub mod Packed
pub mod Uneven
pub mod Cells
pub mod StartingStates
pub mod Laws
pub mod Sharing
pub mod Beginnings
-- what the steps inside say of a stored sample, and lists that are changed item by item, which the sweep of a plane
-- says too
pub mod Storing
-- what a plane's rows and their neighbours are, and a step of the sweep of both replicas, which the calls for other
-- crates' kernels say too
pub mod DuoSweep
pub mod Order
pub mod Neighbourhood
pub mod PlaneSweep
