pub mod Items
pub mod Values
pub mod Pools
pub mod Calls
