pub mod TargetSets
pub mod Moved
pub mod Laying
pub mod Labelling
pub mod Bodies
pub mod Verdicts
