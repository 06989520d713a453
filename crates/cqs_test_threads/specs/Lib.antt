pub mod Comes
pub mod Workers
pub mod Rest
pub mod Goes
pub mod Crew
