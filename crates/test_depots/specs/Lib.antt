pub mod Failing
pub mod FailingCounts
pub mod FailingLaws
pub mod Late
pub mod Log
pub mod Meeting
pub mod Pairs
