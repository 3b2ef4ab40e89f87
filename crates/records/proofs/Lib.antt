pub mod Choosing
pub mod Bytes
pub mod BigEndian
pub mod Standing
pub mod Pieces
pub mod Moving
pub mod Encoding
pub mod Reading
