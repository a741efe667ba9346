pub mod Records
pub mod Indexed
pub mod Sounds
pub mod Rewriting
pub mod Held
