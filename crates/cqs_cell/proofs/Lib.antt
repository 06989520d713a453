pub mod Answered
pub mod Crossing
pub mod Made
pub mod Looking
pub mod Polls
pub mod Worked
