mod LevelSums
mod Lines
pub mod Members
pub mod Merging
mod Sums
mod TierSums
