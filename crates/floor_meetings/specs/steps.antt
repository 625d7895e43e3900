-- Definitions for the proofs alone.
pub mod Lived
pub mod Placed
