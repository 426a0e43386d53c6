pub mod Onwards
pub mod Pins
