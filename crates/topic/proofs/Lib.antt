pub mod Places
pub mod Scan
pub mod Positions
pub mod Levels
pub mod Oasis
pub mod Examples
pub mod Apart
pub mod Earlier
