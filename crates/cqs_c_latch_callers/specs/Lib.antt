pub mod LatchCallers
pub mod BarrierCallers
pub mod LatchTold
pub mod LatchAnswers
pub mod BarrierTold
pub mod BarrierAnswers
pub mod LatchSeats
pub mod BarrierSeats
