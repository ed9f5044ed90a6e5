pub mod Forms
pub mod Arrays
pub mod Endings
pub mod Fits
pub mod Replay
pub mod Known
pub mod Targets
