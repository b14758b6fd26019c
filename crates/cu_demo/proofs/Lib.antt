pub mod Computed
mod Elements
