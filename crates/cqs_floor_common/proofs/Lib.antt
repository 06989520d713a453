pub mod Counting
pub mod FirstHeld
pub mod HeldElements
pub mod Holdings
