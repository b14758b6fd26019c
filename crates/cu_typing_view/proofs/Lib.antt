pub mod AxisRanges
pub mod Counted
pub mod Divided
mod Examples
pub mod Exceeded
pub mod HeldElements
pub mod IndexSizes
mod IndexSteps
pub mod MarkedAxes
pub mod NewShapes
pub mod NumbersFit
pub mod PositiveSizes
pub mod Steps
pub mod Stretched
