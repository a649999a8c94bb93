-- what public contracts say
pub mod Causes
pub mod Contents
pub mod Decimal
pub mod FileNames
pub mod MemoryOutput
pub mod MemoryStore
pub mod Numbers
pub mod Refusals
pub mod Sealed
pub mod Writes
-- what stores keep, and what the steps inside say: for proofs alone
pub mod Entries
pub mod FileBytes
pub mod FolderSteps
pub mod Saves
pub mod StoreView
pub mod TakenBytes
