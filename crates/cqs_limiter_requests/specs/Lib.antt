pub mod Lines
pub mod LineLaws
pub mod Requests
pub mod Replies
pub mod Told
