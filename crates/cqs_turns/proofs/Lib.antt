mod Examples
pub mod GivingBack
pub mod Jobs
pub mod Retries
pub mod Turning
pub mod Ends
