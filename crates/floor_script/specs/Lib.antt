-- What a reader has to believe, in the order of reading.
pub mod Names
pub mod Line
pub mod Script
pub mod Attached
pub mod State
pub mod Printed
pub mod Answered
pub mod Written
pub mod Run
pub mod Input
-- the steps of the proofs
pub mod steps
