pub mod Parts
pub mod Numerals
pub mod Signature
pub mod Naming
pub mod Cuts
pub mod Rereading
pub mod InTime
