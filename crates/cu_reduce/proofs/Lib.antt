mod Examples
mod LineExamples
pub mod Bests
pub mod Chained
pub mod Combined
pub mod Combining
pub mod Covered
pub mod Folding
pub mod Given
pub mod Grouped
pub mod Ranges
pub mod Regions
pub mod Rounds
