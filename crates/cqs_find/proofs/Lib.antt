pub mod Far
pub mod Numbers
pub mod Searches
