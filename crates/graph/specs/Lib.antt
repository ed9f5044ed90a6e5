pub mod Claim
pub mod Rules
pub mod Passes
pub mod Paths
