pub mod Text
pub mod Places
pub mod Theorems
pub mod Canonical
