pub mod Bytes
pub mod Lexical
