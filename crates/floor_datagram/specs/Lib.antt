-- What a reader has to believe, in the order of reading.
pub mod Datagrams
pub mod Numbering
pub mod Written
pub mod Fragments
pub mod Requests
pub mod Pace
pub mod Notices
pub mod Own
pub mod HelloAck
pub mod Session
-- what is said of whole runs
pub mod Taken
pub mod Run
pub mod Order
pub mod NoticeIds
pub mod Newest
pub mod Holding
pub mod Losing
pub mod Sending
-- what the fields of the types stand for
pub mod Views
pub mod OutView
pub mod SessionView
