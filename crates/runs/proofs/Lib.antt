pub mod Replaying
pub mod Promised
