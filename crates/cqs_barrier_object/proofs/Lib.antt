pub mod Frame
pub mod Stayed
pub mod Parties
pub mod QueueMoves
pub mod WordSteps
pub mod Steps
pub mod Fits
pub mod Conserved
