pub mod IdText
pub mod Keys
pub mod Name
