-- What a reader has to believe, in the order of reading.
pub mod Conference
pub mod Events
pub mod Shown
pub mod Checks
pub mod Said
pub mod Change
pub mod Parcel
pub mod Outgoing
pub mod Reply
pub mod Same
pub mod Told
pub mod Next
pub mod Journal
pub mod Fitting
pub mod Machine
pub mod Names
pub mod Laws
pub mod Reachable
pub mod Membership
pub mod Returning
pub mod Amount
pub mod Examples
pub mod ActExamples
pub mod SayExamples
-- the steps of the proofs
pub mod steps
