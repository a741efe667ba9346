pub mod ShortNames
pub mod Notes
pub mod Index
pub mod Tables
pub mod Held
