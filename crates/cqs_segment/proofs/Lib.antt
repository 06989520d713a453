mod Allowed
pub mod Endings
mod Extensions
mod Leavings
pub mod Linked
mod Taken
pub mod Walks
pub mod Ahead
