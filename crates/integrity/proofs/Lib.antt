pub mod Traversal
pub mod Inside
pub mod Keeps
pub mod Steps
pub mod Demand
pub mod Home
pub mod Shown
pub mod Ways
