-- What a reader has to believe, in the order of reading.
pub mod Calls
pub mod Said
pub mod Runs
pub mod Laws
