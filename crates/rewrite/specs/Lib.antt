pub mod Answers
pub mod Inside
