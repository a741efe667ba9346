pub mod Chains
pub mod Lists
