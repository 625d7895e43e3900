-- The steps of the proofs. Nobody has to believe them: no public clause rests on them.
pub mod Slots
pub mod Lending
pub mod Found
pub mod Serving
pub mod Running
pub mod Attached
pub mod Handed
pub mod KeptBy
pub mod Gathering
