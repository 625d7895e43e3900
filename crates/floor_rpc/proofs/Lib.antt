mod Behind
pub mod Document
pub mod Fields
mod Chain
mod CallsBack
mod RequestsBack
mod ErrorsApart
