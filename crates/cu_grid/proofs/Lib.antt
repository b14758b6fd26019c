pub mod ChunkIndices
pub mod Covers
mod Examples
pub mod Meeting
pub mod Parting
pub mod Products
pub mod Regions
pub mod WholeRegions
