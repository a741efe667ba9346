pub mod Words
pub mod Objects
