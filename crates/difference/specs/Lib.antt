pub mod Queue
pub mod Handed
pub mod Notes
