mod Blocks
mod Lowest
mod Ordered
mod Summed
pub mod Words
