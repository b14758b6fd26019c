pub mod Tables
pub mod Passes
pub mod States
pub mod SeatViews
