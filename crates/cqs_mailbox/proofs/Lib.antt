pub mod MailKeeps
pub mod TallyKeeps
pub mod SendersKeep
pub mod SpareKeeps
pub mod PostsKeep
pub mod DeskKeeps
pub mod DesksKept
