mod Counted
pub mod Sizes
