pub mod Dialogues
pub mod Lines
