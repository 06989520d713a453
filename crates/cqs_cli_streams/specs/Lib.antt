pub mod InMemory
pub mod Counts
pub mod Script
pub mod Stream
pub mod Tally
pub mod Stops
pub mod Input
pub mod Sayings
