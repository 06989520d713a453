pub mod LatchObject
pub mod LatchEntries
pub mod LatchNames
pub mod LatchShown
pub mod LatchWords
pub mod LatchSteps
pub mod LatchRuns
pub mod LatchLaws
