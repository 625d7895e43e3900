-- What a reader has to believe, in the order of reading.
pub mod Methods
pub mod Faults
pub mod Params
pub mod Calls
pub mod Requests
pub mod Json
pub mod Names
pub mod Ids
pub mod Words
pub mod CallsWritten
pub mod Pictures
pub mod Answers
pub mod Errors
pub mod Failures
pub mod Notifications
pub mod Laws
pub mod Examples
