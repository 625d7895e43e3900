-- What a reader has to believe, in the order of reading.
pub mod Found
pub mod Epochs
pub mod Naming
pub mod Writing
pub mod Names
