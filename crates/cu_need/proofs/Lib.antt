pub mod AlignedNeed
mod AlongExamples
pub mod AlongTypes
mod CopyExamples
pub mod CostLaws
mod Examples
pub mod FirstLive
pub mod LiveNodes
pub mod LiveSteps
pub mod LoopSteps
pub mod OperandsWithin
pub mod Outlined
pub mod PartialChunks
pub mod SoughtAxes
pub mod Staged
pub mod TypedNodes
pub mod WantedChunks
pub mod WithinLimits
