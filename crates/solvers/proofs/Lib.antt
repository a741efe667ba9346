pub mod Answering
pub mod Words
pub mod Rests
