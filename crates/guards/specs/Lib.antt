pub mod Sequences
pub mod Rules
pub mod Patterns
