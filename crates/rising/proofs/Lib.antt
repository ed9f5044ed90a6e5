pub mod Numbers
pub mod Rising
pub mod Same
pub mod Sizes
