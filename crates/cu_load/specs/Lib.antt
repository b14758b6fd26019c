pub mod Keys
pub mod Load
pub mod LoadForm
pub mod Name
pub mod Said
