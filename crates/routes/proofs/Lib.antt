pub mod Leading
pub mod Walking
