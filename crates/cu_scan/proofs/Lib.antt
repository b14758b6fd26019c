pub mod Buffers
pub mod RegionSums
pub mod RowSums
pub mod Told
