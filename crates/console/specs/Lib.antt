pub mod Answers
pub mod Commands
pub mod Faults
pub mod FirstLine
pub mod Grammar
pub mod Left
pub mod Rest
pub mod Words
