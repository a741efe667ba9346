pub mod Words
pub mod Rows
pub mod Closing
pub mod Parts
pub mod Orders
pub mod Numbers
