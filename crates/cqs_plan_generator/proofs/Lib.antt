pub mod Examples
pub mod Jobs
pub mod Valid
