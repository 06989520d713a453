pub mod Counters
pub mod TakeSteps
pub mod ResumeSteps
pub mod PutSteps
pub mod CancelSteps
pub mod AloneSteps
pub mod Values
pub mod ElementTimes
