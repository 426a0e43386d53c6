pub mod Numbers
pub mod Calls
pub mod Meaning
pub mod Pins
