pub mod Runs
pub mod Answered
pub mod Listed
pub mod Lawful
pub mod Agreement
