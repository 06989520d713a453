pub mod HeldElements
pub mod Holdings
pub mod Room
