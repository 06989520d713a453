pub mod MeaningLemmas
pub mod PlanLemmas
pub mod StudyLemmas
pub mod WordLemmas
pub mod RunFloors
pub mod Summed
