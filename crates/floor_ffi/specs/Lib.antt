-- What a reader has to believe, in the order of reading.
pub mod Numbers
pub mod Called
pub mod Gives
pub mod Laws
-- the steps of the proofs
pub mod steps
