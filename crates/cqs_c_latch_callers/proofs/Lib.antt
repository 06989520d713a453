pub mod LatchKept
pub mod BarrierKept
