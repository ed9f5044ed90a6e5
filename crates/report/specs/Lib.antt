pub mod Figures
pub mod Reports
pub mod Theorems
pub mod Examples
pub mod Inside
