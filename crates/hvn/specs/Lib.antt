pub mod Columns
pub mod Flows
