pub mod Refused
pub mod Right
pub mod Settled
pub mod Objects
pub mod Located
pub mod Lines
pub mod Targeted
