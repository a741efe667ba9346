pub mod Refusals
pub mod Books
pub mod Replies
pub mod States
pub mod InStep
pub mod Settling
pub mod Objects
pub mod Listing
