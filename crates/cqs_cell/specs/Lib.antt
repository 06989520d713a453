pub mod Found
pub mod Transitions
pub mod Crossings
pub mod Looks
