pub mod Bools
pub mod Search
pub mod First
pub mod Counts
pub mod Tables
pub mod Places
