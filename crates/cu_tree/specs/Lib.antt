pub mod Marks
pub mod Needs
pub mod Outlines
pub mod Partials
pub mod Rounds
pub mod Sums
