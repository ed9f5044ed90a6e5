pub mod Calls
pub mod Demand
pub mod Home
pub mod Examples
pub mod Ways
