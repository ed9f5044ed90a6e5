pub mod Totals
pub mod Theorems
pub mod Examples
