pub mod Marking
pub mod Numbering
