pub mod Ascii
pub mod Maybe
pub mod Text
