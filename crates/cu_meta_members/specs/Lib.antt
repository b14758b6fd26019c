pub mod Members
pub mod Storable
