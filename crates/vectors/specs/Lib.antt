pub mod Fields
pub mod Asking
pub mod Clients
pub mod Judging
pub mod Tallies
