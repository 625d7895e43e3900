pub mod Attending
pub mod Living
pub mod Moving
pub mod Unopened
pub mod Quietly
pub mod Settled
pub mod Turns
