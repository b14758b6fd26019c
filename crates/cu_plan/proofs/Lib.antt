pub mod Choice
mod Examples
mod InlinedExamples
pub mod Kept
pub mod Lines
pub mod Listing
mod ListedExamples
pub mod Merged
pub mod OneReader
pub mod OneRegion
pub mod Refused
pub mod Taken
pub mod Takings
pub mod Tests
pub mod Waiting
