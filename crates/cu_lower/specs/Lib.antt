pub mod Inputs
pub mod Parts
pub mod Plan
pub mod Premises
