-- The steps of the proofs.
pub mod Taken
pub mod Lines
pub mod Numbered
