pub mod PastTop
pub mod Table
