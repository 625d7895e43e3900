-- What the steps of reading and writing find and need. Nobody has to believe them: no public clause rests on them.
pub mod Reading
pub mod Writable
