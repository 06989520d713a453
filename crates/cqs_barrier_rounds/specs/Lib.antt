pub mod Members
pub mod Passes
pub mod Rounds
pub mod Calls
pub mod Seats
