pub mod Faults
pub mod Questions
pub mod State
pub mod Answers
pub mod Parts
pub mod Histories
pub mod Promise
