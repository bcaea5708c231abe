pub mod Faults
pub mod Maps
pub mod Checks
pub mod Reads
pub mod Writes
