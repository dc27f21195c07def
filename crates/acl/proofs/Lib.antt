pub mod SharingLaws
pub mod RunLaws
pub mod Positions
pub mod Reordering
pub mod Example
pub mod Decide
pub mod Marked
