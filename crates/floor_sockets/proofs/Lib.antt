pub mod Turning
pub mod Listing
pub mod Timing
pub mod Running
pub mod Hearing
pub mod Worked
pub mod Stopping
pub mod Silent
