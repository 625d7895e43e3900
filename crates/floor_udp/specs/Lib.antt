-- What a reader has to believe, in the order of reading.
pub mod Origin
pub mod Allowance
