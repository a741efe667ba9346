pub mod Noting
pub mod Sizes
pub mod Kept
pub mod Few
pub mod Checking
pub mod Verdict
