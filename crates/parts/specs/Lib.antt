-- What the enums of this crate stand for in the rules.
pub mod Numbers
