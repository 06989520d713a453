pub mod Unbroken
pub mod LowLine
pub mod StateWords
pub mod SemaphoreMoves
pub mod StateFound
pub mod LawfulHistories
