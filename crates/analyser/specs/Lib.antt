pub mod Refusals
pub mod Books
pub mod Histories
pub mod Places
pub mod States
