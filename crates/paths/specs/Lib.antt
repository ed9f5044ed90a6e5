pub mod Shortest
pub mod Given
pub mod Inside
pub mod Theorems
pub mod Examples
