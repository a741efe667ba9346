pub mod Units
pub mod Runs
pub mod Agreement
