-- Whole sessions, each file after those that it uses.
pub mod Sessions
pub mod Stepping
pub mod Pieces
pub mod Moving
pub mod RoundTrip
pub mod Served
pub mod Marked
pub mod Examples
