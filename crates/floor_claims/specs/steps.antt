-- The steps of the proofs. Nobody has to believe them: no public clause rests on them.
pub mod Led
