pub mod Handing
pub mod Queue
pub mod Runs
pub mod Taken
