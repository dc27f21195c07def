pub mod Listing
pub mod Running
