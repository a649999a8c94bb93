-- what public contracts say
pub mod Levels
pub mod KeptReading
pub mod Rooms
pub mod LevelRooms
pub mod SaveRooms
-- what the steps inside say: for proofs alone
pub mod Steps
