pub mod Matrix
pub mod Keys
pub mod Paths
pub mod Components
pub mod Order
