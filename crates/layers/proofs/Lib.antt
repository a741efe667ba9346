pub mod Reducing
pub mod Peers
pub mod Planning
pub mod Counting
pub mod Delegating
