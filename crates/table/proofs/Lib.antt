pub mod Cells
pub mod Stored
pub mod Tested
pub mod Empty
pub mod Answers
pub mod Pins
