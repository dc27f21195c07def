pub mod Call
pub mod Said
pub mod Client
pub mod Output
pub mod Input
pub mod Reading
