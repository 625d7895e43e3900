pub mod Pairing
pub mod Running
pub mod Living
pub mod Taking
pub mod Numbers
pub mod Gathering
