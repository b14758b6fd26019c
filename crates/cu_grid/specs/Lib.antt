pub mod Counts
pub mod Cover
pub mod Grid
pub mod Limits
