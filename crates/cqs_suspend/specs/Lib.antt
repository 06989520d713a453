pub mod Suspends
pub mod SyncSuspends
