pub mod Sights
pub mod Noting
pub mod Serving
pub mod Dealing
pub mod Gathering
pub mod Handing
pub mod Running
