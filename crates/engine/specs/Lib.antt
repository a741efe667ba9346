pub mod Faults
pub mod Meanings
