pub mod Prefixes
pub mod Drives
pub mod Recognises
pub mod Units
pub mod Determined
pub mod Reading
pub mod Items
