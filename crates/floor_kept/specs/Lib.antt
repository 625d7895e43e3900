-- What a reader has to believe, in the order of reading.
pub mod Entries
pub mod Body
pub mod Head
pub mod NewHeads
pub mod File
pub mod Writing
pub mod Opening
pub mod Laws
-- the steps of the proofs
pub mod steps
