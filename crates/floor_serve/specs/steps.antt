-- Definitions that speak of private types, for the proofs alone.
pub mod Slots
pub mod First
pub mod Ascending
pub mod Parts
pub mod Last
pub mod Waking
pub mod Pieces
