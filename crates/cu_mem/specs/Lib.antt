pub mod Entries
pub mod Late
pub mod Memory
pub mod Script
pub mod Sharing
pub mod Streams
