pub mod Steps
pub mod OneStep
pub mod Lent
pub mod Theorems
