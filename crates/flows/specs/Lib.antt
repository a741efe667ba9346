pub mod Columns
pub mod Opens
pub mod Names
pub mod Inside
