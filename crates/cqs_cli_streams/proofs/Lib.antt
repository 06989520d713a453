pub mod Loops
pub mod StreamLemmas
pub mod Inputs
