pub mod Bytes
pub mod Parcel
pub mod Inner
pub mod Theorems
