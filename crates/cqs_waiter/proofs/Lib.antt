mod Arriving
mod ItemWaits
mod LatchWaits
mod Locks
mod PartyWaits
mod PermitWaits
