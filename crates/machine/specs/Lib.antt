pub mod Numbers
pub mod Steps
pub mod Runs
pub mod Lent
pub mod Inside
pub mod Theorems
