pub mod Edges
pub mod Owners
pub mod Labels
pub mod Apart
pub mod Returns
pub mod CodeWords
