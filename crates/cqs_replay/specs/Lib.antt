pub mod EventLines
pub mod EventLaws
pub mod EntryLines
pub mod EntryLaws
pub mod OutcomeLines
pub mod Schedules
pub mod Runs
