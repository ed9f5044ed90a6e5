pub mod Verdicts
pub mod Ends
pub mod Conditions
pub mod Theorems
pub mod Steps
pub mod Passes
pub mod Examples
