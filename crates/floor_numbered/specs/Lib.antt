-- What a value ends as that was lent to be changed.
pub mod Lending
