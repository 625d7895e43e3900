-- What the steps of the relay find and need. Nobody has to believe them: no public clause rests on them.
pub mod Hearing
pub mod Telling
pub mod Asking
pub mod Reading
