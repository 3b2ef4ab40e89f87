pub mod Answers
pub mod Unwarned
