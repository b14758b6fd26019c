pub mod Axes
pub mod Runs
pub mod Sources
pub mod Typed
pub mod View
