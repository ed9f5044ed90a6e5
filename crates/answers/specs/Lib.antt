pub mod Numbers
pub mod Shape
pub mod Faults
