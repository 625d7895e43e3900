-- What a reader has to believe, in the order of reading.
pub mod Names
pub mod Members
pub mod Meetings
pub mod Calls
pub mod Gathering
pub mod Joined
pub mod Runs
pub mod Laws
pub mod Examples
-- the steps of the proofs
pub mod steps
