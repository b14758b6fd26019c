pub mod Arrays
pub mod Check
pub mod Chunks
pub mod Elements
pub mod Plains
