-- what the contracts mean
pub mod Frame
pub mod Stream
pub mod FrameReader
pub mod Request
pub mod KeyName
pub mod Reply
pub mod Whole
pub mod Cut
pub mod Session
pub mod Device
pub mod Memory
-- functions that a law ties to these, and what serves proofs
pub mod Reading
pub mod FieldList
pub mod Partial
pub mod Steps
pub mod Streams
