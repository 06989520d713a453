pub mod Ends
pub mod Telling
pub mod Meeting
pub mod Waits
pub mod Calls
pub mod Hired
