pub mod Scans
pub mod Names
pub mod Opening
pub mod Putting
pub mod Walks
