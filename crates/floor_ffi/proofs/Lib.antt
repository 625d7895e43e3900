-- lemmas, and the steps of the walks
pub mod Lining
pub mod Numbered
pub mod Opens
pub mod Putting
pub mod Serves
pub mod Steps
pub mod Takes
pub mod Texts
