-- What a reader has to believe, in the order of reading.
pub mod Names
pub mod Tag
pub mod Line
pub mod Answer
pub mod People
pub mod Floors
pub mod Refused
pub mod Metrics
pub mod Incoming
pub mod Outgoing
pub mod Client
pub mod Opening
pub mod Watch
pub mod Watcher
pub mod Watching
pub mod WatchedRun
pub mod Laws
pub mod Streams
-- the steps of the proofs
pub mod steps
