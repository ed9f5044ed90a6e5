pub mod Blocks
pub mod Rewrite
pub mod Rules
pub mod Theorems
pub mod Examples
