pub mod Buffers
pub mod RowSteps
pub mod Sums
pub mod Taking
pub mod Truths
