pub mod Key
pub mod Layout
pub mod Metadata
pub mod Spelling
pub mod Stored
