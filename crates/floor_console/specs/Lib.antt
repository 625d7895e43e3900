pub mod Names
pub mod Command
pub mod Answer
pub mod Laws
