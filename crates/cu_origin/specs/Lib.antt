pub mod Fits
pub mod Pull
