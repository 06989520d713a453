pub mod Spots
pub mod Holdings
pub mod Ledgers
pub mod FloorKept
pub mod DeskCalls
pub mod Meeting
pub mod Openings
pub mod OnlyPasses
