pub mod Mail
pub mod Tallies
pub mod Senders
pub mod Spare
pub mod Mailboxes
pub mod Calls
pub mod Callers
