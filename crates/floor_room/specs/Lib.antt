-- What a reader has to believe, in the order of reading.
pub mod Ledger
pub mod Outbox
pub mod Room
pub mod Calls
pub mod Standing
pub mod Status
pub mod Taking
pub mod Told
pub mod Replay
pub mod Text
pub mod Names
-- the steps of the proofs
pub mod steps
