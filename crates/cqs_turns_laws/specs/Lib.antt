pub mod Totals
pub mod Events
pub mod Stories
pub mod Endings
pub mod Balances
pub mod Versions
