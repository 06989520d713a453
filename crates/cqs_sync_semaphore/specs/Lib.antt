pub mod Calls
pub mod Owed
pub mod Entries
pub mod Answers
pub mod Alone
pub mod Steps
pub mod Callers
