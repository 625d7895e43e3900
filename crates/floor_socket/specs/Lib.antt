pub mod Tasks
pub mod Lines
pub mod Words
pub mod Followers
pub mod Counting
pub mod Runs
