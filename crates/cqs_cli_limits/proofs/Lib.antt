pub mod Apart
pub mod OneAnswer
pub mod Replied
pub mod Calls
