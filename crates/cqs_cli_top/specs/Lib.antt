pub mod Words
pub mod WorkText
pub mod Working
pub mod KeptWorks
pub mod Verdicts
pub mod Meanings
pub mod Commands
pub mod Calls
