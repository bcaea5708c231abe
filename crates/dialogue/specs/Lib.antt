pub mod Admissions
pub mod Commands
pub mod Dialogues
pub mod Faults
pub mod Outcomes
pub mod Sessions
pub mod Shorts
