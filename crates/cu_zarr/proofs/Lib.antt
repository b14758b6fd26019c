mod Example
pub mod Joined
pub mod Spelled
