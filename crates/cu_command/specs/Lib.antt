pub mod Chunks
pub mod Inputs
pub mod Job
pub mod Keys
pub mod Seen
pub mod Status
pub mod Stored
pub mod Streams
