pub mod Table
pub mod Bytes
pub mod Order
