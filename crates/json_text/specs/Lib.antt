pub mod Lines
pub mod Utf8
pub mod Strings
pub mod Json
pub mod Access
pub mod Plain
