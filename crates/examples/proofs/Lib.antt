pub mod WorkedExamples
pub mod Bites
pub mod ShortLists
pub mod Slips
