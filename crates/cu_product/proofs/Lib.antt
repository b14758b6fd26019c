pub mod Batches
mod Examples
pub mod Pairs
pub mod Parts
pub mod Sums
pub mod ReadThrough
