pub mod Parsed
pub mod Cut
pub mod Heads
pub mod Ran
