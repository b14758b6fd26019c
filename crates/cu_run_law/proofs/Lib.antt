pub mod Keeping
pub mod Elements
pub mod Reading
pub mod PlanNames
pub mod Alike
