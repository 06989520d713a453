pub mod Seats
pub mod Tenants
pub mod Made
