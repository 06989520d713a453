mod Examples
mod DataLists
mod WorkSteps
mod FirstFaults
mod MeaningLemmas
mod PatienceFaults
mod ValidNumbers
mod ValidSteps
mod Absent
mod ValidPatience
mod ValidJobs
mod SectionFaults
mod ReadSections
mod ValidPlans
mod WholePlans
pub mod OneAnswer
