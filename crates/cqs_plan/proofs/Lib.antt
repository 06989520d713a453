pub mod RunnablePlans
pub mod PoolSeats
