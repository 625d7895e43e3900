-- How the indexes stand for the ongoing requests. Nobody has to believe it: no public clause rests on it.
pub mod Lines
pub mod Numbers
pub mod Parties
