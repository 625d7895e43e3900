-- What a reader has to believe, in the order of reading.
pub mod Announced
pub mod Departures
pub mod Ends
pub mod Refusals
pub mod Resuming
pub mod Fresh
pub mod Asked
pub mod Unkept
pub mod Doors
pub mod Times
pub mod Counters
pub mod Pieces
pub mod Readers
pub mod Told
