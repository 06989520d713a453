pub mod BarrierObject
pub mod BarrierEntries
pub mod BarrierNames
pub mod BarrierShown
pub mod BarrierSteps
pub mod BarrierLaws
pub mod SoleCaller
