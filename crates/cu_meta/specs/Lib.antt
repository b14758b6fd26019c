pub mod Fault
pub mod Part
pub mod Members
pub mod Metadata
pub mod ReadSteps
pub mod Written
pub mod Said
