pub mod SyncKept
