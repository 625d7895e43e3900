-- What a reader has to believe, in the order of reading.
pub mod Names
pub mod Announced
pub mod Asked
pub mod Table
pub mod Conferences
pub mod Received
pub mod Log
pub mod Ports
pub mod Steps
