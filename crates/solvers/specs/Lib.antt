pub mod Taking
pub mod Roominess
