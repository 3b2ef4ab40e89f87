pub mod Lowest
pub mod Mask
pub mod Parameters
pub mod Validity
