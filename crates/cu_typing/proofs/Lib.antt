pub mod Chunks
mod Examples
pub mod GoingInto
pub mod Passed
pub mod PassedAlong
pub mod PassedTogether
pub mod ProductSizes
pub mod ReducedSizes
pub mod Together
