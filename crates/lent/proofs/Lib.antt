pub mod Refused
pub mod Same
