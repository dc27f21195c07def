pub mod Rules
pub mod Answers
pub mod Clients
pub mod Unpacked
pub mod Hosts
