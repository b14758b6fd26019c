mod Examples
pub mod KeptLimits
