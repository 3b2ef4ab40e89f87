pub mod Answers
pub mod Refused
pub mod Same
