pub mod PastTop
pub mod PostParcel
pub mod Table
