pub mod Loop
pub mod Sounds
pub mod Pins
