pub mod Buffered
pub mod Taking
pub mod Working
pub mod Turning
pub mod Pieces
