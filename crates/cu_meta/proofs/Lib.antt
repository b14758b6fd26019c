pub mod ReadSteps
pub mod Answered
pub mod Assembled
pub mod LayoutData
pub mod KnownMembers
pub mod Fills
pub mod Plain
pub mod Bytes
pub mod ReadBack
pub mod Accepted
pub mod MetaLaw
mod Example
