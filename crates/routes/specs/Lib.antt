pub mod Records
pub mod Walks
