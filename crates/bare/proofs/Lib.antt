pub mod Claimed
pub mod ByKind
pub mod Chains
