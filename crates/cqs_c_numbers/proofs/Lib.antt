pub mod MarkSteps
pub mod BarrierNumber
pub mod CallNumbers
pub mod Opens
pub mod SyncNumber
