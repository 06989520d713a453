pub mod Replies
pub mod Verdicts
pub mod Contract
