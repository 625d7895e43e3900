-- The steps of the proofs. Nobody has to believe them: no public clause rests on them.
pub mod Changed
pub mod Listed
pub mod Taken
pub mod Joined
pub mod Moved
pub mod Thrown
pub mod Soonest
pub mod Carried
pub mod Entered
pub mod Losing
pub mod Replayed
pub mod Found
