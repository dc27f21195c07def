pub mod Store
pub mod Layout
pub mod View
pub mod Opening
pub mod Check
