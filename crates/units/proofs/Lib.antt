pub mod Packed
pub mod Arguments
pub mod Overlay
pub mod Passes
