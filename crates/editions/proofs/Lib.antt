pub mod Converting
pub mod Copying
pub mod Converted
pub mod Outside
pub mod Theorems
