pub mod Connections
pub mod Accepting
pub mod Console
pub mod Ending
pub mod Ports
pub mod Capacity
