pub mod Broadcast
pub mod Counts
pub mod Index
pub mod Padded
pub mod PaddedBack
pub mod Several
pub mod Slice
