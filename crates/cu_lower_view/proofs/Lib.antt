mod Examples
pub mod Joined
pub mod Loops
pub mod Marks
pub mod Numbers
pub mod Permuted
pub mod Promoted
pub mod Pulls
pub mod OnesLeftOut
pub mod Sliced
pub mod Sources
pub mod Stretched
pub mod Typed
mod TypedExamples
