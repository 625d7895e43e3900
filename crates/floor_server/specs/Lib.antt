pub mod Words
pub mod Keeping
pub mod Console
pub mod Faults
pub mod Departures
pub mod Doors
