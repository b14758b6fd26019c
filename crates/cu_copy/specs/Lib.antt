pub mod Chunks
pub mod Copies
