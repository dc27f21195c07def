pub mod Demand3
pub mod Decide
pub mod Marked
