pub mod Workers
pub mod Tallies
pub mod Sums
