pub mod Words
pub mod States
pub mod Checks
pub mod Parcels
pub mod Inside
pub mod Theorems
