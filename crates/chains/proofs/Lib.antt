pub mod Reach
pub mod Walks
pub mod Chained
pub mod Splice
pub mod Inserted
