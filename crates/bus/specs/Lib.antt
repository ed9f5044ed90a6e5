pub mod Numbers
pub mod Bus
pub mod Lent
pub mod Inside
