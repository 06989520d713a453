pub mod Callers
pub mod Marks
pub mod Numbered
pub mod Answered
pub mod Seats
pub mod Making
