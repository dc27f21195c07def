pub mod Topic
pub mod Walk
pub mod Mqtt47
pub mod Demand2
pub mod Earlier
