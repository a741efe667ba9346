pub mod Waits
pub mod Notes
