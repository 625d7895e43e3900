-- What a reader has to believe, in the order of reading.
pub mod Clients
pub mod Callers
pub mod Answering
pub mod Attending
pub mod Stopping
