pub mod Words
pub mod Rooms
pub mod Puts
pub mod Parcels
pub mod Unchanged
pub mod Apart
