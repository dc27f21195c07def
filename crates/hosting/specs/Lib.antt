pub mod Hosting
pub mod Walk
pub mod Claims
