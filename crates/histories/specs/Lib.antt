pub mod Books
pub mod Says
pub mod Histories
