pub mod StandingTwice
pub mod Limits
pub mod Tables
pub mod Plain
pub mod Shown
pub mod Kept
pub mod Agreeing
pub mod KeptAfter
