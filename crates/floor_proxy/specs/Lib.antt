pub mod Names
pub mod Name
pub mod Tlv
pub mod steps
pub mod Header
pub mod Laws
pub mod Examples
pub mod UniqueId
