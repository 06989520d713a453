pub mod EventRuns
