pub mod Counted
pub mod Compact
pub mod Ordered
