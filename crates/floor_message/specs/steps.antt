-- What the steps of reading, measuring and writing find and make. Nobody has to believe them: no public clause rests on them.
pub mod Adding
pub mod Rising
pub mod Leaves
pub mod Answering
pub mod Reasons
pub mod Writing
