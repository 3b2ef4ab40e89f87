pub mod Effects
pub mod Steps
pub mod Numbers
pub mod Phases
