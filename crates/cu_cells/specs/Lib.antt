pub mod Cells
pub mod Late
pub mod Layout
pub mod Rule
pub mod Script
pub mod Starts
pub mod Yard
pub mod YardLaws
