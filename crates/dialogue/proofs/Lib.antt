pub mod Carrying
pub mod Room
pub mod Sessions
