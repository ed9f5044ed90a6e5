pub mod Sums
pub mod Held
pub mod AsListed
pub mod ByKind
pub mod Sets
pub mod Reports
pub mod Bounds
pub mod Examples
