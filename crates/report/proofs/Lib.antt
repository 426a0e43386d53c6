pub mod Bound
pub mod Page
pub mod Pins
