-- What a reader has to believe, in the order of reading.
pub mod Away
pub mod Loop
pub mod Written
pub mod Returned
pub mod Resumed
pub mod Done
pub mod Laws
pub mod Examples
-- the steps of the proofs
pub mod steps
