-- What a reader has to believe, in the order of reading.
pub mod Transactions
pub mod Client
pub mod Names
pub mod Rendered
pub mod Laws
