pub mod Declarations
pub mod Listed
pub mod Meanings
pub mod Verdicts
