pub mod Numbers
pub mod Machine
pub mod Step
pub mod Table
pub mod Own
pub mod Queue
pub mod Sources
