pub mod Text
pub mod Line
pub mod Theorems
pub mod Canonical
