pub mod RoundsOne
pub mod RoundsShares
pub mod LatchAccounts
pub mod LatchShares
pub mod AnyShares
pub mod OnlyPasses
pub mod RoundLeaves
