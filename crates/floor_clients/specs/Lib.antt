-- What a reader has to believe, in the order of reading.
pub mod Lines
pub mod Modes
pub mod Replies
pub mod Outgoing
pub mod Watched
pub mod Wanted
pub mod Clients
pub mod Served
pub mod Runs
pub mod Laws
