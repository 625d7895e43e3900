-- What a reader has to believe.
pub mod Claim
-- the steps of the proofs
pub mod steps
