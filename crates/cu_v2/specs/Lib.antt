pub mod Fault
pub mod Members
pub mod Zarray
pub mod Form
pub mod ReadSteps
