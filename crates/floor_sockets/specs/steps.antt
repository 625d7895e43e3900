-- Definitions of private types, for the proofs alone: nobody has to believe them.
pub mod Rounds
pub mod Due
pub mod Listed
pub mod Ending
