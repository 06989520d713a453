pub mod Walks
pub mod Links
pub mod Told
pub mod Slots
pub mod Finds
pub mod Extends
