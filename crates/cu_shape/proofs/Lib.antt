pub mod Axes
pub mod Broadcasts
pub mod Ends
mod Examples
pub mod InsideBoth
pub mod Places
pub mod Products
pub mod Ranges
pub mod ReadThrough
pub mod Rounded
pub mod Runs
