-- The worked examples, each file after those that it uses.
pub mod Rows
pub mod RowsOpened
pub mod WorkedExamples
pub mod Bites
pub mod ShortLists
pub mod Slips
