pub mod Copies
pub mod Cumulative
pub mod Grouped
pub mod Partials
pub mod Products
pub mod Reductions
pub mod Searches
pub mod Steps
