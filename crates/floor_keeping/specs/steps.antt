-- For the proofs alone: definitions of what no caller sees.
pub mod Listed
