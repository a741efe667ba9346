pub mod Rules
pub mod Grown
pub mod Visits
