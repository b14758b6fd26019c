pub mod Boxes
pub mod Drawn
pub mod Evenly
mod Examples
pub mod Lined
pub mod ReadOver
pub mod MetRuns
pub mod Reshapes
pub mod Rows
pub mod RunBoxes
pub mod SharedBoxes
pub mod Slices
pub mod Intervals
pub mod Stretches
pub mod Strided
