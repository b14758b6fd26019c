mod Examples
pub mod OptionSteps
pub mod ResultSteps
