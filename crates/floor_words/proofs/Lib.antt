pub mod Parting
pub mod Some
pub mod Ends
pub mod Digits
pub mod Cutting
