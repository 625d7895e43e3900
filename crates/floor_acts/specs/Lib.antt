pub mod Numbers
pub mod Forms
pub mod Acts
pub mod Laws
