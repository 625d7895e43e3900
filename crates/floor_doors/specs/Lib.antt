-- What a reader has to believe, in the order of reading.
pub mod Names
pub mod Newcomer
pub mod Follows
pub mod steps
pub mod Laws
pub mod Examples
