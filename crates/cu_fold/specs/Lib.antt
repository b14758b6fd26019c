pub mod Levels
pub mod Reduced
pub mod SetBytes
pub mod Strips
pub mod Taken
