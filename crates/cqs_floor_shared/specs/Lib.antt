pub mod Entries
pub mod AnswerEntries
pub mod Shared
pub mod Calls
