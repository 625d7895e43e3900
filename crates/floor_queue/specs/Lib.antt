pub use Rattle.floor_config.specs.Changed
pub use Rattle.floor_config.specs.Configuration
pub use Rattle.floor_config.specs.Doubles
pub mod Requested
pub mod Order
pub mod Queue
pub mod Examples
-- the steps of the proofs
pub mod steps
