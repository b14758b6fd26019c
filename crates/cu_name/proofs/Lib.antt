mod Examples
pub mod Prefixes
mod Texts
