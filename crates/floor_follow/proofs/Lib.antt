pub mod Loops
pub mod First
