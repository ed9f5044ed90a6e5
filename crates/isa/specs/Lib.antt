pub mod Words
pub mod Instructions
pub mod PostProgram
pub mod Theorems
pub mod Inside
