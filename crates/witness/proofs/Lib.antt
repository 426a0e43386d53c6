pub mod Rows
pub mod Size
pub mod Meaning
pub mod Pins
