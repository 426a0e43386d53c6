pub mod Answers
pub mod Few
pub mod Listed
pub mod Meaning
pub mod Named
pub mod Pins
pub mod Walk
