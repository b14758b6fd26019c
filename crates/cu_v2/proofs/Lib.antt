pub mod Values
pub mod Elements
pub mod Parts
pub mod Exact
mod ReadSteps
pub mod Answered
mod Example
