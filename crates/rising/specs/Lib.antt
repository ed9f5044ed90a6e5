pub mod Rising
pub mod Inside
