pub mod SemaphoreKept
pub mod Waits
pub mod Every
pub mod TokenSteps
pub mod PoolKept
pub mod NotRefused
