pub mod Keys
pub mod Lists
