pub mod Faults
pub mod Departures
