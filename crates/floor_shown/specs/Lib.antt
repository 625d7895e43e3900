-- What a reader has to believe, in the order of reading.
pub mod Texts
pub mod Numbers
pub mod Errors
pub mod Opening
pub mod Requests
pub mod Floors
pub mod Asking
pub mod Events
pub mod Followed
