pub mod Works
pub mod Endings
pub mod Alone
