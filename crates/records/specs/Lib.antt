pub mod BigEndian
pub mod Records
pub mod Found
pub mod Encoding
