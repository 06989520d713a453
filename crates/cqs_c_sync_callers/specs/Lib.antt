pub mod Callers
pub mod Told
pub mod Answers
pub mod Seats
