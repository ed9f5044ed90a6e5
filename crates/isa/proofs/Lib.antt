pub mod Words
pub mod ByKind
pub mod Masks
