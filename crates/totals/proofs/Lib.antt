pub mod Fractions
pub mod Lists
pub mod Examples
