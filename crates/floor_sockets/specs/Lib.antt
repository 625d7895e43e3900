-- What a reader has to believe, in the order of reading.
pub mod Life
pub mod Rounds
pub mod steps
pub mod Sockets
pub mod Runs
pub mod Laws
pub mod Examples
