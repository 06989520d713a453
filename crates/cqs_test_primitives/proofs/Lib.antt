pub mod BarrierWaits
pub mod MutexWaits
pub mod PoolHands
pub mod PoolWaits
pub mod RoundSplits
pub mod Claims
