pub mod Question
pub mod Decision
pub mod Answers
pub mod Parts
