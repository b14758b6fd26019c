pub mod Blocks
pub mod Columns
pub mod Elements
pub mod Runs
