pub mod Packing
pub mod Cell
pub mod State
pub mod Crew
pub mod Head
pub mod Segment
pub mod Waiters
