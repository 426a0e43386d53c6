pub mod Pins
pub mod Reading
