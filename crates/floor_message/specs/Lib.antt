-- What a reader has to believe, in the order of reading.
pub mod Primitive
pub mod Code
pub mod Status
pub mod Head
pub mod Binding
pub mod Text
pub mod Picked
pub mod Fields
pub mod Ask
pub mod Tell
pub mod Written
pub mod Room
pub mod Fits
pub mod Shown
pub mod Laws
pub mod MessageExamples
-- the steps of the proofs
pub mod steps
-- what the contracts cite of floor_wire
pub use Rattle.floor_wire.specs.Attributes
pub use Rattle.floor_wire.specs.Bytes
pub use Rattle.floor_wire.specs.Header
pub use Rattle.floor_wire.specs.Spelled
pub use Rattle.floor_wire.specs.Spelling
pub use Rattle.floor_wire.specs.Types
pub use Rattle.floor_wire.specs.View
