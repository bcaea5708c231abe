pub mod Feeding
pub mod OneCut
