pub mod Event
pub mod Templates
pub mod Pushes
pub mod Leaving
