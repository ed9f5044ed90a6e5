pub mod Reports
pub mod Inside
pub mod Theorems
