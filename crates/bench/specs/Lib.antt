pub mod Buffered
pub mod Failing
pub mod State
pub mod Working
pub mod Turning
pub mod Answered
pub mod Pieces
