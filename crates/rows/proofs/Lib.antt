pub mod Counts
pub mod Replies
