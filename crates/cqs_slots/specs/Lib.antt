pub mod Layout
pub mod Lists
pub mod Slots
pub mod Shown
pub mod Told
pub mod Opened
pub mod Steps
pub mod Laws
