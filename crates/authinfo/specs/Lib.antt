pub mod Answers
pub mod ClientRule
pub mod Decision
pub mod Expiry
pub mod Filling
pub mod Given
pub mod OnePass
pub mod Places
