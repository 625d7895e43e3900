-- What a reader has to believe, in the order of reading.
pub mod Connections
pub mod Names
pub mod News
pub mod Hub
pub mod World
pub mod Kept
pub mod StandsFor
pub mod Calls
pub mod Rooms
pub mod Left
pub mod Concerned
pub mod Shown
pub mod Gathers
pub mod Members
pub mod Runs
pub mod Laws
pub mod Examples
-- the steps of the proofs
pub mod steps
