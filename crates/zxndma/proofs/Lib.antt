pub mod Turns
pub mod Refusing
pub mod Unwarned
