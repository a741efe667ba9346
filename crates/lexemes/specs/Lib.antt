pub mod Classes
pub mod Terminals
pub mod Lexemes
pub mod Texts
pub mod Lines
