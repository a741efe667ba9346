pub mod Growth
pub mod Scans
pub mod Slots
pub mod Fronts
pub mod Puts
pub mod Rules
pub mod Visits
