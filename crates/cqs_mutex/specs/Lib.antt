pub mod Guards
pub mod Values
pub mod Mutexes
pub mod Calls
