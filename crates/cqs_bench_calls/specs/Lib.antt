pub mod Four
pub mod Idle
pub mod Waits
