pub mod Attended
pub mod Told
