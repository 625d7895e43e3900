pub mod GivenBack
pub mod Places
pub mod Sockets
