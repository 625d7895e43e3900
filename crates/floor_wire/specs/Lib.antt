-- What a reader has to believe, in the order of reading.
pub mod Message
pub mod Header
pub mod Attributes
pub mod Spelling
pub mod Bytes
pub mod Types
pub mod Spelled
pub mod Fault
pub mod FirstFault
pub mod MessageExamples
pub mod AttributeExamples
-- what the values of the types stand for
pub mod Held
pub mod View
pub mod Views
pub mod Seen
pub mod AttributesCode
pub mod AttrsCode
pub mod AttrsFalls
-- the steps of the proofs
pub mod steps
