pub mod Cancels
pub mod Unasked
pub mod AtOnce
pub mod Alone
