mod Keys
pub mod Steps
pub mod Once
pub mod Sharing
pub mod Specs
pub mod StaysOpen
