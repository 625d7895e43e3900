pub mod Turns
pub mod Calm
pub mod Fronts
pub mod Readings
pub mod Owned
pub mod Epochs
pub mod Listing
pub mod Disk
