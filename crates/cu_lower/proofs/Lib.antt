mod Examples
mod ViewExamples
mod ReducedExamples
mod AlongExamples
mod CopiedExamples
mod BoundedTypes
pub mod NoNode
pub mod Collected
pub mod Aligning
pub mod AlongTypes
pub mod Behind
pub mod OperandSteps
pub mod OutlinedSteps
pub mod Needs
pub mod TypedForms
pub mod InputNames
pub mod StepLaws
pub mod Marked
pub mod ReducedIndices
pub mod ReductionTypes
pub mod ReducedValues
pub mod ProductTypes
pub mod Node
pub mod NodeLaws
pub mod NodeSteps
pub mod PlaceLinks
pub mod ProductLinks
pub mod GivenInputs
pub mod Grids
pub mod Growing
pub mod AxisIndices
pub mod EntryIndices
pub mod ViewRules
pub mod Codes
pub mod Arguments
pub mod Applied
pub mod Names
pub mod Typed
pub mod Standing
pub mod Stepped
pub mod Fitting
pub mod Placed
pub mod Operations
pub mod Attained
pub mod Counted
pub mod Soundness
pub mod Meanings
pub mod Lawful
pub mod Ready
