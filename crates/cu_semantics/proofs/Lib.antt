mod Examples
pub mod Earlier
pub mod Equation
pub mod InType
pub mod RuleLaws
