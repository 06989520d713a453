pub mod PoolObject
pub mod PoolEntries
pub mod PoolNames
pub mod PoolShown
pub mod PoolSteps
pub mod PoolLaws
pub mod PoolOrder
