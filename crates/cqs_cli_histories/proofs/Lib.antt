pub mod OneAnswer
pub mod Checked
