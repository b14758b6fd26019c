pub mod Chunks
pub mod Faults
pub mod Held
pub mod Key
pub mod Share
pub mod Steps
pub mod Streams
pub mod Yard
