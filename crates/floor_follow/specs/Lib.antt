-- What a reader has to believe, in the order of reading.
pub mod Names
pub mod Reading
pub mod Facts
pub mod Live
pub mod Row
pub mod Told
pub mod Question
pub mod Conference
pub mod Following
pub mod Cutting
