pub mod Lays
pub mod Steps
pub mod Division
pub mod Strips
pub mod Rows
