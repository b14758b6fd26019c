pub mod AxesInside
mod Examples
mod FitExamples
pub mod OriginsInside
pub mod PiecesInside
