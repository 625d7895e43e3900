-- Definitions of the proofs alone: nobody has to believe them.
pub mod Counted
pub mod Following
