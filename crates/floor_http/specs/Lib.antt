pub mod Heads
pub mod Exchanges
