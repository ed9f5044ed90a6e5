pub mod Converters
pub mod Inside
pub mod Theorems
