mod SyncPasses
mod Between
mod AcquireSteps
mod NeverDelegated
mod CancelSteps
mod Delivered
mod ResumeSteps
mod ReleaseSteps
mod LonePasses
mod HandledOut
mod AloneSteps
pub mod Callers
