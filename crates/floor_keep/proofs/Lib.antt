pub mod Points
pub mod Gathered
pub mod Parts
pub mod Epochs
