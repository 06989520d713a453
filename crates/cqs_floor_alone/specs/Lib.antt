pub mod Ledger
pub mod DeskCalls
pub mod Kept
pub mod Opening
