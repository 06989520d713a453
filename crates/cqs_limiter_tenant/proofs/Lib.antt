pub mod Came
pub mod Sends
pub mod Answered
pub mod Replied
pub mod Opened
