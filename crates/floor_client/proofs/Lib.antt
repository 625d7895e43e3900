pub mod Appending
pub mod Numbering
pub mod Responses
pub mod Turns
