pub mod Counts
pub mod Buffers
pub mod Spans
pub mod Stretches
pub mod WholeSlots
